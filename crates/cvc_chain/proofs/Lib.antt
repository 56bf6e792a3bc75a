pub mod Replays
pub mod Cuts
pub mod Matches
pub mod Numbers
pub mod RoundTrip
