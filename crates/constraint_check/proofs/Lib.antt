mod Rising
mod Values
mod Left
mod Apart
mod Clashes
mod LookUpLaws
