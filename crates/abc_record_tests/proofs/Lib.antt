pub mod OneSpeaks
