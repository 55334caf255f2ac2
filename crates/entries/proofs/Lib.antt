mod SetUp
mod Sized
mod Entered
mod Previewed
