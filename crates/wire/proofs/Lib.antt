mod Laws
mod QueuedLaws
