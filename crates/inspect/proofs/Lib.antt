mod Entries
mod OnPage
mod LeafPagesTold
mod NodeTold
mod WalkTold
mod TreeTold
mod StoreTold
