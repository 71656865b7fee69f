mod Observing
mod Answered
mod Fits
mod Told
mod Passed
