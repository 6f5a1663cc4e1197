pub mod Slack
pub mod Queue
pub mod Sound
pub mod Due
pub mod Picks
