mod DeviceLemmas
mod HeldLemmas
mod TurnLemmas
mod ReopenLemmas
mod CloseLemmas
