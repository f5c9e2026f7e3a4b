mod Alike
mod Bounds
mod Firsts
mod Levels
mod Words
