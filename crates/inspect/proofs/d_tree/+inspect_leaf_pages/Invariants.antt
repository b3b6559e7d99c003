use Rattle.inspect.proofs.d_tree.+inspect_leaf_pages.Given as goal

abbrev pub decreases-inspect_leaf_pages : goal.decreases-inspect_leaf_pages
decreases-inspect_leaf_pages g l = l.n
