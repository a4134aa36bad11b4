mod Pieces
mod Mapped
