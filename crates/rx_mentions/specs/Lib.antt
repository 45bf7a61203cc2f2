pub mod Mention
pub mod MentionView
pub mod Mentions
pub mod Tags
pub mod Ways
