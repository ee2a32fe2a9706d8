mod Parting
mod LineByLine
mod Told
mod SpelledLines
mod LiveLines
