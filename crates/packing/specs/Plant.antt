-- A plant (01, "The record"): gateways 0 to n - 1, the links as a list of two numbers each in order of arrival, a limit for each gateway, and an order.
-- Limits are a function of the gateway throughout; a plant with the common limit T has T for every gateway.
use Rattle.std.specs.Prelude.{ℕ, ◌*◌, Bool, false, ◌&&◌, ◌||◌, cond, List, [], ◌∷◌, eqb, take, get_or}

-- "no gateway", as an entry of a leader list and as a holder (01: 65535)
abbrev pub NONE : ℕ
NONE = 65535

-- the most gateways and links of a plant, and the lowest and highest limit (01, "The product")
abbrev pub GATEWAYS : ℕ
GATEWAYS = 1024

abbrev pub LINKS : ℕ
LINKS = 8192

-- two places for each link
abbrev pub ENDS : ℕ
ENDS = 16384

abbrev pub LOWEST : ℕ
LOWEST = 2

abbrev pub HIGHEST : ℕ
HIGHEST = 16

-- the entry of a list at a place
abbrev pub at : List ℕ → ℕ → ℕ
at l i = get_or l i 0

-- the common limit T (01: "a limit T")
unfoldable pub common : ℕ → ℕ → ℕ
common t u = t

-- the first m links of a lent list, which holds two numbers for each (01: "links (two numbers each, in order of arrival)")
unfoldable pub first_links : ℕ → List ℕ → List ℕ
first_links m links = take (2 * m) links

-- "either way round it is the same link"
abbrev pub joins : ℕ → ℕ → ℕ → ℕ → Bool
joins a b x y = (eqb a x && eqb b y) || (eqb a y && eqb b x)

-- x and y are linked
unfoldable pub linked : List ℕ → ℕ → ℕ → Bool
linked [] x y = false
linked (a ∷ []) x y = false
linked (a ∷ b ∷ rest) x y = joins a b x y || linked rest x y

-- the other end of the link a-b where x is an end of it, before what comes from the links after it
abbrev pub other_end : ℕ → ℕ → ℕ → List ℕ → List ℕ
other_end a b x later = cond (eqb a x) (b ∷ later) (cond (eqb b x) (a ∷ later) later)

-- x's neighbours in order of arrival (01: "x's links in order of arrival"). A link listed twice gives its end twice: a reader takes it where it first stands.
unfoldable pub neighbours : List ℕ → ℕ → List ℕ
neighbours [] x = []
neighbours (a ∷ []) x = []
neighbours (a ∷ b ∷ rest) x = other_end a b x (neighbours rest x)
