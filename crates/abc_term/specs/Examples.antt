-- Worked examples: small systems, and the steps that they can and can't make, each proved by computing the definitions.
pub mod Writing
pub mod Greeting
pub mod HiddenAttribute
pub mod LabelBeforeUpdate
pub mod ThisInPredicate
pub mod Interleaving
pub mod GuardOpened
pub mod Overflow
pub mod Colouring
pub mod ReadsBeforeUpdate
pub mod PassedOn
pub mod OtherLength
pub mod BoundAnew
pub mod TwoWays
pub mod NobodySpeaks
pub mod Calling
