mod Lists
mod Orders
mod Holding
mod FoundCount
mod Worked
