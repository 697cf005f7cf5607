mod Computes
mod Entries
