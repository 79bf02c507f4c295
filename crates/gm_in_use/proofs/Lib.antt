mod Ends
mod FirstLine
