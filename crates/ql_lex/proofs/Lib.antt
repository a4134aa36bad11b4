mod Classes
mod Within
mod Steps
mod Spans
mod OneStart
mod SomeStart
mod OneLexing
