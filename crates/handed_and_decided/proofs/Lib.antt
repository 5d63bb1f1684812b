mod Emptied
mod Texts
