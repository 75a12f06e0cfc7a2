-- Which file of a folder is whose.
use Rattle.std.specs.Prelude.{ℕ, ◌-◌, nat_le, List, ◌++◌, codes, decimal, if◌then◌else◌}

abbrev pub shard_path : List ℕ → ℕ → List ℕ
shard_path folder n = folder ++ (codes "/shard-" ++ (decimal n ++ codes ".journal"))

abbrev pub router_path : List ℕ → ℕ → List ℕ
router_path folder n = folder ++ (codes "/router-" ++ (decimal n ++ codes ".journal"))

-- the path of the file at a place: shard n's is at place n, router n's at place 16 + n
abbrev pub path_of : List ℕ → ℕ → List ℕ
path_of folder place = if nat_le 16 place then router_path folder (place - 16)
    else shard_path folder place
