mod Ends
mod Told
