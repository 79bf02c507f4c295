mod Begun
mod Before
