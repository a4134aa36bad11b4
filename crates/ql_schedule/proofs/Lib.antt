mod PartLaws
mod Loops
mod ArgumentLaws
mod Fronts
mod Clean
pub mod Sound
pub mod ObjectNames
mod OneFile
mod LinesAgain
mod EventsAgain
mod FileAgain
mod Printing
mod NoEvents
mod Joins
pub mod Named
pub mod SameFiles
