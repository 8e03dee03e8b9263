pub mod Commits
pub mod CommitWriting
pub mod Places
