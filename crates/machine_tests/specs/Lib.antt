pub mod FirstTree
