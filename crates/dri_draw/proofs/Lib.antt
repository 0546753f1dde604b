-- lists of rectangles, and rectangles that lie on the screen
pub mod Rects
-- drawing in one rectangle more, and what stays
pub mod Drawn
