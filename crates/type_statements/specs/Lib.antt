pub mod Answers
pub mod Declarators
pub mod Meetings
pub mod Places
pub mod Ready
pub mod Walks
