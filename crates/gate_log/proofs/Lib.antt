mod AppendLemmas
mod GateLemmas
mod PutLemmas
mod ReadLemmas
mod StartLemmas
mod TornLemmas
