mod Agree
mod Counts
mod FillLaws
