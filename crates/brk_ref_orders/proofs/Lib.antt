mod Counts
mod Refused
mod Joined
mod OrderFields
mod Days
