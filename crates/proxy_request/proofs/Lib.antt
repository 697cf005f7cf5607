mod Computes
mod Passes
mod Spelled
mod UsualLines
