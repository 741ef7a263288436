use Rattle.ingest_tree.proofs.tree.IngestTree.with_row.Given as goal

abbrev pub ghosts-with_from : goal.ghosts-with_from
ghosts-with_from a = record { name = a.blank.name; parts = a.blank.parts }
