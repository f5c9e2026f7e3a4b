mod Pages
mod SamplePages
