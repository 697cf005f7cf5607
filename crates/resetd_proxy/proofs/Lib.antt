mod Joined
mod Numbers
mod Rows
mod Separators
