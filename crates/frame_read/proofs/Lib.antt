mod Searching
mod Answers
mod Undecided
