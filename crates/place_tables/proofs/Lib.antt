pub mod Lists
pub mod Grouping
pub mod Lacking
pub mod Inside
pub mod Holding
