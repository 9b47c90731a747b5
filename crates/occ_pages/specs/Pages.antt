-- Pages of entries under their first keys.
use Rattle.std.specs.Prelude.{◌≡◌, ◌<◌, ◌≤◌, ◌+◌, ◌^◌, ℕ, zero, suc, Bool, false, nat_eq, List, [], ◌∷◌, ◌++◌, length, take, drop, get_or, set, Option, None, Some}
use Rattle.std.specs.List.{insert}
use Rattle.occ_pages.specs.Entries.{AllBelow, AllFrom, Ascends}

-- the numbers ascend
abbrev pub Rises : List ℕ → Type 0
Rises keys = (i j : ℕ) → i < j → j < length keys → get_or keys i 0 < get_or keys j 0

-- the keys before a place are below a key, and no other key is
pub record IsRank (keys : List ℕ) (key place : ℕ) : Type 0 where
  pub there : place ≤ length keys
  pub below : (i : ℕ) → i < place → get_or keys i 0 < key
  pub from : (i : ℕ) → place ≤ i → i < length keys → key ≤ get_or keys i 0

-- a key belongs to the page at a place, by the first keys of all pages
pub record IsPageFor (firsts : List ℕ) (key page : ℕ) : Type 0 where
  pub there : page < length firsts
  pub first : 0 < page → get_or firsts page 0 ≤ key
  pub next : page + 1 < length firsts → key < get_or firsts (page + 1) 0

module _ {T : Type 0} where
  -- the keys of a page with their rows
  abbrev pub zipped : List ℕ → List T → List (ℕ × T)
  zipped [] rows = []
  zipped (key ∷ keys) [] = []
  zipped (key ∷ keys) (row ∷ rows) = (key, row) ∷ zipped keys rows

  -- whether this key is the first one
  abbrev pub begins_with : ℕ → List (ℕ × T) → Bool
  begins_with key [] = false
  begins_with key (e ∷ es) = nat_eq e.0 key

  -- the first key
  abbrev pub BeginsAt : ℕ → List (ℕ × T) → Type 0
  BeginsAt key [] = ⊥
  BeginsAt key (e ∷ es) = e.0 ≡ key

  -- all pages, one behind another
  abbrev pub flatten : List (List (ℕ × T)) → List (ℕ × T)
  flatten [] = []
  flatten (page ∷ pages) = page ++ flatten pages

  -- the entries before a place of a page
  abbrev pub before : List (List (ℕ × T)) → ℕ → ℕ → List (ℕ × T)
  before [] page place = []
  before (entries ∷ pages) zero place = take place entries
  before (entries ∷ pages) (suc page) place = entries ++ before pages page place

  -- the entries from a place of a page on
  abbrev pub behind : List (List (ℕ × T)) → ℕ → ℕ → List (ℕ × T)
  behind [] page place = []
  behind (entries ∷ pages) zero place = drop place entries ++ flatten pages
  behind (entries ∷ pages) (suc page) place = behind pages page place

  -- each page stands under its first key
  abbrev pub AreUnder : List ℕ → List (List (ℕ × T)) → Type 0
  AreUnder [] [] = Unit {0}
  AreUnder [] (page ∷ pages) = ⊥
  AreUnder (first ∷ firsts) [] = ⊥
  AreUnder (first ∷ firsts) (page ∷ pages) = BeginsAt first page × AreUnder firsts pages

  -- the keys of the first entries are below a key, and no key of the others is
  pub record IsSplit (key : ℕ) (first others : List (ℕ × T)) : Type 0 where
    pub below : AllBelow key first
    pub from : AllFrom key others

  -- pages in order, each under its first key
  pub record IsShelf (firsts : List ℕ) (pages : List (List (ℕ × T))) : Type 0 where
    pub under : AreUnder firsts pages
    pub ascends : Ascends (flatten pages)

  -- the place of the first entry from a lower end on; the end may be missing
  abbrev pub IsStart : Option ℕ → List (ℕ × T) → ℕ → Type 0
  IsStart None es place = place ≡ 0
  IsStart (Some end) es place = IsSplit end (take place es) (drop place es)

  -- the place of the first entry that isn't below an upper end; the end may be missing
  abbrev pub IsEnd : Option ℕ → List (ℕ × T) → ℕ → Type 0
  IsEnd None es place = place ≡ length es
  IsEnd (Some end) es place = IsSplit end (take place es) (drop place es)

  -- a key belongs at a place of a page: all entries before it are below the key, and none behind it is, but the one that has it
  pub record IsPlace (key : ℕ) (pages : List (List (ℕ × T))) (page place : ℕ) : Type 0 where
    pub there : page < length pages
    pub inside : place ≤ length (get_or pages page [])
    pub below : AllBelow key (before pages page place)
    pub absent : begins_with key (drop place (get_or pages page [])) ≡ false → AllFrom (suc key) (behind pages page place)

  -- a new key belongs at a place of a page
  pub record IsGap (key : ℕ) (pages : List (List (ℕ × T))) (page place : ℕ) : Type 0 where
    pub there : page < length pages
    pub inside : place ≤ length (get_or pages page [])
    pub below : AllBelow key (before pages page place)
    pub above : AllFrom (suc key) (behind pages page place)

  -- with the first key of a page in its place
  abbrev pub HasFirst : List ℕ → ℕ → List (ℕ × T) → List ℕ → Type 0
  HasFirst firsts page entries now = (first : ℕ) × BeginsAt first entries × (now ≡ set firsts page first)

  -- with a page cut at a place into two
  abbrev pub cut : List (List (ℕ × T)) → ℕ → ℕ → List (List (ℕ × T))
  cut pages page place = insert (set pages page (take place (get_or pages page []))) (suc page) (drop place (get_or pages page []))

  -- pages in order, and how many entries they have; never so many that an `isize` couldn't count them
  pub record IsMap (firsts : List ℕ) (pages : List (List (ℕ × T))) (len : ℕ) : Type 0 where
    pub shelf : IsShelf firsts pages
    pub counted : len ≡ length (flatten pages)
    pub few : len < 2 ^ 63

  -- what is left of a page, and pages in order
  pub record IsLeft (keys : List ℕ) (rows : List T) (pages : List (List (ℕ × T))) : Type 0 where
    pub same : length keys ≡ length rows
    pub ascends : Ascends (flatten pages)
