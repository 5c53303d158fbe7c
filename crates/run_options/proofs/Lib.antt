mod ArgumentWords
mod SortedWords
