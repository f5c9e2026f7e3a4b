mod Lines
mod Made
mod Gathered
mod Choosing
mod Led
mod Returns
mod Valid
