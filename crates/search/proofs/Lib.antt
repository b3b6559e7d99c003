mod Halving
mod Divided
mod OnLeaf
mod OnHead
mod OnDTree
mod OnNode
mod OnTree
mod OnPath
