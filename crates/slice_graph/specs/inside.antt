-- What only the calls inside say to each other.
pub mod Edges
pub mod Growing
pub mod PullLists
pub mod Pushing
pub mod Words
