mod Readings
mod Sketching
