mod Few
mod Seen
mod Read
mod Asked
mod OverLines
mod Instances
mod Said
