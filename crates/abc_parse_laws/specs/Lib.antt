pub mod EachText
