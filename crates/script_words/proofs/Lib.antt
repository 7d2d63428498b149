mod Decimals
mod WordLaws
