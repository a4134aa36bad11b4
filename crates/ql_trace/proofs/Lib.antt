mod JsonLists
mod Each
mod Among
mod Turns
