mod Kept
mod Printing
mod Explaining
