mod PartLemmas
mod EntryLemmas
mod JoinLemmas
mod ChangeLemmas
mod ReplaceLemmas
mod SeekLemmas
mod ChunkLemmas
mod AlterLemmas
