mod KeptLemmas
mod Orders
mod OneBelow
