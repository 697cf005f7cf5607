mod Each
mod NameTables
