mod Set
mod Listed
mod Coming
mod Swapping
