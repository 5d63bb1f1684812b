mod Batches
mod Good
mod Fits
mod Ranked
mod Law
