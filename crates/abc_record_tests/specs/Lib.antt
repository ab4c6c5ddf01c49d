pub mod OneSpeaker
