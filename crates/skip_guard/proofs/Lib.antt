mod Ends
mod EntryLaws
