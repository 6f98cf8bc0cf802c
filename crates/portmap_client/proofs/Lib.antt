mod Answering
mod Calling
mod Counting
mod Reading
