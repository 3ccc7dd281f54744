use Rattle.pt_tables.proofs.tables.SessionTables.+adds_up_below.Given as goal

abbrev pub decreases-adds_up_below : goal.decreases-adds_up_below
decreases-adds_up_below l = l.classes
