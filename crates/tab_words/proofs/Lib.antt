mod Reading
mod WorkedLines
