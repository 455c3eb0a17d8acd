mod Laying
mod Words
mod Writes
