pub mod FirstFacts
